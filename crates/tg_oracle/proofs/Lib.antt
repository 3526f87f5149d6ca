mod HelloChecks
mod HelloTexts
mod HelloLayout
