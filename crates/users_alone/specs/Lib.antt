pub mod UsersAlone
