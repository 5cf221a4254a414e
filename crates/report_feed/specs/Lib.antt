pub mod FeedTold
