-- what follows from the definitions
pub mod Laws
-- That no second outcome meets a contract.
pub mod Once
