-- What reading brings.
mod Filling
