mod SmallStorage
mod TwoHalves
mod Ends
