mod NextFiles
mod ExpectedTexts
mod SummaryTexts
mod GoodPaths
