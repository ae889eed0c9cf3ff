pub mod TasksAre
