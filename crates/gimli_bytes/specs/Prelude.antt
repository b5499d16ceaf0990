-- What these definitions name of other crates.
pub use Rattle.gimli_core.specs.Numbers.{number_bytes, value_of}
pub use Rattle.gimli_core.specs.Reading.{result_map}
pub use Rattle.gimli_core.specs.declared.common.SectionId.{SectionId}
