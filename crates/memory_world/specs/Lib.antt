pub mod WorldParts
