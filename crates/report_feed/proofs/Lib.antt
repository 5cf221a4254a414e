pub mod CallLaws
pub mod FeedLaws
