pub mod WrongRules
