mod Scanning
mod Digits
mod Filling
mod Theorems
