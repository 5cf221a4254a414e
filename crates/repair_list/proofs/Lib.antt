pub mod RelistLaws
