pub mod RisingLaws
pub mod PlaceLaws
pub mod KeyLaws
pub mod MoveLaws
