mod Keeping
mod Answering
mod Looking
mod Feeding
mod Hearing
mod Standing
mod Serving
