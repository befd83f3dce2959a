pub mod Joined
mod Accesses
mod Digits
mod Named
mod Near
mod OneHelper
