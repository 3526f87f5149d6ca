mod ExportSteps
mod ImportSteps
mod VerifySteps
