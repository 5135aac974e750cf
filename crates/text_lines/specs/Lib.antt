pub mod TaskLines
