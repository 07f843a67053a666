mod RightEvents
mod Tries
