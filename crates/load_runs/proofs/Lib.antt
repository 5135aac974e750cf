pub mod LoadRuns
