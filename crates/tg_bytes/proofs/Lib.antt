mod DigitSteps
