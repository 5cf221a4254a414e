pub mod ValueAnswerLaws
