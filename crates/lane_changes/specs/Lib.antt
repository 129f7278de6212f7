-- `Deliveries` says what nodes keep, delivery by delivery, and `Changes` which changes of a view the events give.
pub mod Deliveries
pub mod Changes
