pub mod Scraping
pub mod Exchanges
pub mod PageReplies
