pub mod NodeTexts
