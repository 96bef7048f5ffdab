mod Boxes
mod Emptying
mod Lending
mod Rewrapping
mod Steps
