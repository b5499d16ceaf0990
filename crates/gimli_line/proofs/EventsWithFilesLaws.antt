-- What rows at the start of a sequence make and give.
use Rattle.gimli_line.proofs
use proofs.Common
use Common.{Bool, List, Option, ap, Error, HeaderSource, Header, without_files, Ins, given_of, Makes, EventsWithFiles}
use Common.{FilesAtEnd, decoded_at, events_left, made_left, files_at_end, start_of_run, Unread}
use Rattle.gimli_line.specs.run.InstructionGrammar.{Decodes}
use proofs.Backwards.{made_start, files_from_start}
use proofs.InstructionLaws.{is_decoded}
use proofs.Runs.{bare_decoding}

-- rows at the start of a sequence, by the bytes that are to come
module _ (a : Bool) (h : Header) (c : HeaderSource) (s : Unread) where
  abbrev parts : List Ins × Option Error
  parts = decoded_at s.layout (without_files h) s.bytes

  decoding : Decodes s.layout h s.bytes parts.0 parts.1
  decoding = bare_decoding _ h _ _ _ (is_decoded _ _ _)

  pub started_events : EventsWithFiles s.layout a h s.bytes (events_left (start_of_run a h c s))
  started_events = record {
    list = parts.0;
    end = parts.1;
    decoding = decoding;
    given = ap given_of (made_start a h.parameters h.files parts.0 parts.1);
  }

  pub started_made : Makes s.layout a h s.bytes (made_left (start_of_run a h c s))
  started_made = record {
    list = parts.0;
    end = parts.1;
    decoding = decoding;
    made = made_start a h.parameters h.files parts.0 parts.1;
  }

  pub started_files : FilesAtEnd s.layout a h s.bytes (files_at_end (start_of_run a h c s))
  started_files = record {
    list = parts.0;
    end = parts.1;
    decoding = decoding;
    given = files_from_start a h.files parts.0;
  }
