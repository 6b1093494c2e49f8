pub mod Numbers
pub mod Texts
pub mod Contents
pub mod Theorems
pub mod DemoTexts
pub mod Refusals
