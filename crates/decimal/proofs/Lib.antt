mod Digit
mod Sign
mod Starts
