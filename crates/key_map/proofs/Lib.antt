pub mod HostLaws
pub mod ServiceLaws
pub mod SectionLaws
pub mod RisingLaws
