pub mod TablesLaws
pub mod WiresLaws
pub mod LaidLaws
