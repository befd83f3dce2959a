mod Elements
mod EmptySet
mod Lines
mod Literals
mod Named
mod Numbers
