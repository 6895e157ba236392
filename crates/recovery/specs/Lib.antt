pub mod Base
pub mod Dead
pub mod Members
pub mod Parts
pub mod RecoverySet
pub mod Reports
pub mod Roll
