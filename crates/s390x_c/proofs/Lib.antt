mod Showing
mod Answering
mod Completing
