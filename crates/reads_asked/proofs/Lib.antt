pub mod AskLaws
pub mod AskedFormLaws
pub mod RequestLaws
pub mod FrontStoreLaws
