mod Counted
mod Federated
mod Homes
mod Served
