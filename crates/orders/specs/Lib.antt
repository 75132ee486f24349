-- Which of the seven orders each case of the code's `Order` is.
pub mod Orders
