-- The definitions of the crate `running_total`.
pub mod RunningTotal
pub mod AllOrders
