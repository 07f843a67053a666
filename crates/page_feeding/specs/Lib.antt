pub mod PageFeeding
