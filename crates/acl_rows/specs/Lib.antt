pub mod GoodRows
