pub mod Items
pub mod TypeLaws
pub mod Laws
