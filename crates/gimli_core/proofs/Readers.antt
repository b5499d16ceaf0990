-- The laws by which a production that is put together is read.
use Rattle.gimli_core.proofs
use proofs.Productions.{reads_both, reads_done, reads_refuse, reads_check, reads_if, reads_times, reads_within}
use proofs.ProductionLaws.{reads_some_bytes, reads_byte, reads_signed_byte, reads_number, reads_text}
use proofs.ProductionLaws.{reads_address_size, reads_below_limit, reads_offset_word, reads_unit_length}
use proofs.UnsignedLeb.{reads_unsigned, reads_unsigned_16}
use proofs.SignedLaws.{reads_signed}

pub ruleset readers = (
  reads_both,
  reads_done,
  reads_refuse,
  reads_check,
  reads_if,
  reads_times,
  reads_within,
  reads_some_bytes,
  reads_byte,
  reads_signed_byte,
  reads_number,
  reads_text,
  reads_address_size,
  reads_below_limit,
  reads_offset_word,
  reads_unit_length,
  reads_unsigned,
  reads_unsigned_16,
  reads_signed,
)
