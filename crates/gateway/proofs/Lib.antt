mod Placed
mod Recorded
mod Ranged
mod Coding
mod Theorems
