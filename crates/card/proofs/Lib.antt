pub mod ByAct
