-- The machine over the instructions of built items.
use Rattle.std.specs.Prelude.{◌≡◌, ◌<◌, ◌≤◌, ◌∷◌, ◌++◌}
use Rattle.gimli_build.proofs
use proofs.Common
use Common.{ℕ, List, [], refl, ap, ◌∙◌, arith, lit<, map, Encoding, LineEncoding, run}
use Common.{BuiltItem, SetAddress, Row, End, CanEncode, IsPosition, address_value, AreBuilt, initial_row, built_rules}
use Common.{read_row, read_end, items_instructions, Ok, sym, None}
use Common.{append-nil, append_assoc, OrderAndLimit, Each, Header, Ins, SpellsInstruction, Decodes, Parameters, plain}
use Common.{Built, IsBuilt, items_bytes, AreFit, HasFittingAddresses, program_rows, program_bytes}
use Rattle.gimli_build.specs.Items.{program_instructions}
use Rattle.gimli_build.specs.Runs
use Runs.{Run, run_start, after_items, AreNext, Gives, written_row, written_end, written_items, given_items, rules}
use Runs.{registers, run_of_program, CanRun}
use Rattle.gimli_line.specs.run.Events.{row, Events, events_after, program_events}
use Rattle.gimli_line.proofs.Backwards.{starts}
use proofs.reading.RowRuns.{row-runs, end-runs, set-address-runs, start-is}
use proofs.spellings.ItemSpellings.{items-spelled}

-- where offsets begin to count
pub start_position : (e : LineEncoding) → CanEncode e → IsPosition e 0 0
start_position e can = grind arith

-- the instructions of items, run from where a run stands, give their rows, and leave it after them
pub items-run : (here : Run) (items : List BuiltItem) → AreNext here items
    → Gives here (written_items here items) (given_items here items) (after_items items here)
items-run here [] next list = refl
items-run here (SetAddress a ∷ items) next list =
    let e = here.line_encoding in
    let there : Run = after_items (SetAddress a ∷ []) here in
    set-address-runs here.encoding e here.base (address_value a) here.previous next.addresses.0 next.addresses.1
    (written_items there items ++ list)
    ∙ items-run there items (record {
      accepts = next.accepts;
      version = next.version;
      position = start_position e next.accepts.lines;
      line_before = next.line_before;
      built = next.built.1;
      addresses = next.addresses.2;
    }) list
items-run here (Row r ∷ items) next list =
    let e = here.line_encoding in
    let there : Run = after_items (Row r ∷ []) here in
    ap (run (rules here) (registers here)) (append_assoc (written_row here r) (written_items there items) list)
    ∙ row-runs here.encoding e here.base here.previous r next.accepts.address_size next.accepts.lines next.position
    next.built.0.0 next.line_before next.built.0.1 next.addresses.0 (written_items there items ++ list)
    ∙ ap (λ events. row (read_row here.encoding.version here.base r) ∷ events)
    (items-run there items (record {
      accepts = next.accepts;
      version = next.version;
      position = next.built.0.0.position;
      line_before = next.built.0.1;
      built = next.built.1;
      addresses = next.addresses.1;
    }) list)
items-run here (End o i ∷ items) next list =
    let e = here.line_encoding in
    let there : Run = after_items (End o i ∷ []) here in
    let end = row (read_end here.encoding.version here.base here.previous o i) in
    ap (run (rules here) (registers here)) (append_assoc (written_end here o i) (written_items there items) list)
    ∙ end-runs here.encoding e here.base here.previous o i next.accepts.address_size next.accepts.lines next.position
    next.built.0 next.addresses.0 (written_items there items ++ list)
    ∙ ap (λ r. end ∷ run (rules here) r (written_items there items ++ list)) (start-is here.encoding e next.version)
    ∙ ap (λ events. end ∷ events)
    (items-run there items (record {
      accepts = next.accepts;
      version = next.version;
      position = start_position e next.accepts.lines;
      line_before = lit< tt;
      built = next.built.1;
      addresses = next.addresses.1;
    }) list)

-- a program whose items could be built, and whose addresses fit, gives its rows
pub program-runs : (p : Built) → CanRun p → run_of_program p ≡ map row (program_rows p)
program-runs p can =
    let rules = built_rules p.encoding p.line_encoding in
    ap (λ r. run rules r (program_instructions p)) (start-is p.encoding p.line_encoding can.version)
    ∙ ap (run rules (registers (run_start p.encoding p.line_encoding))) (sym (append-nil (program_instructions p)))
    ∙ items-run (run_start p.encoding p.line_encoding) p.items (record {
      accepts = can.accepts;
      version = can.version;
      position = start_position p.line_encoding can.accepts.lines;
      line_before = lit< tt;
      built = can.built;
      addresses = can.addresses;
    }) []
    ∙ append-nil (map row (program_rows p))

-- ---- the instructions that a written program is decoded into, and the rows that they give

-- ---- the decoding

-- bytes that are spellings and nothing else are decoded into these
cut_whole : (layout : OrderAndLimit) (h : Header) (bytes : List ℕ) (list : List Ins)
    → Each (SpellsInstruction layout h) bytes list
    → Decodes layout h bytes list None
cut_whole layout h bytes list spelled = record {
  front = bytes;
  rest = [];
  parts = sym (append-nil _);
  spelled = spelled;
  ended = refl;
}

-- the items of a unit whose header has this encoding
spelled_under : (layout : OrderAndLimit) (h : Header) (encoding : Encoding) (e : LineEncoding) (items : List BuiltItem)
    (bytes : List ℕ)
    → h.parameters.encoding ≡ encoding → h.parameters.opcode_base ≡ 13 → 11 < layout.limit → CanEncode e
    → AreBuilt e (0, 0) items
    → AreFit encoding.version items
    → items_bytes plain layout.is_big encoding e (initial_row encoding.version e.default_is_stmt) items ≡ Ok bytes
    → Each (SpellsInstruction layout h) bytes
    (items_instructions encoding.version e (initial_row encoding.version e.default_is_stmt) items)
spelled_under layout h encoding e items bytes same base wide can built fit written = grind (arith, items-spelled)

-- the instructions of a written program
pub cut-back : (layout : OrderAndLimit) (h : Header) (p : Built) → IsBuilt p → 11 < layout.limit
    → h.parameters ≡ built_rules p.encoding p.line_encoding
    → program_bytes plain layout.is_big p ≡ Ok h.program
    → Decodes layout h h.program
    (items_instructions p.encoding.version p.line_encoding
    (initial_row p.encoding.version p.line_encoding.default_is_stmt) p.items)
    None
cut-back layout h p built wide parameters written = cut_whole _ h _ _
    (spelled_under _ h _ _ _ _ (ap (λ r. r.encoding) parameters)
    (ap (λ r. r.opcode_base) parameters) wide built.is.lines built.is.items_built built.items_fit written)

-- ---- the rows

-- the events of a program from a start are its rows
rows_given : (parameters : Parameters) (p : Built) → parameters ≡ built_rules p.encoding p.line_encoding → CanRun p
    → map row (program_rows p) ≡ program_events parameters (program_instructions p) None
rows_given parameters p same can =
    let list = program_instructions p in
    sym (program-runs p can)
    ∙ starts (built_rules p.encoding p.line_encoding) list ∙ ap (λ r. events_after r [] list None) (sym same)

-- the rows of a written program, where addresses hold its items and none is a tombstone
pub rows-back : (layout : OrderAndLimit) (h : Header) (p : Built) → IsBuilt p → p.encoding.version ≤ 5
    → 11 < layout.limit
    → h.parameters ≡ built_rules p.encoding p.line_encoding → program_bytes plain layout.is_big p ≡ Ok h.program
    → HasFittingAddresses p → Events layout h h.program (map row (program_rows p))
rows-back layout h p built known wide parameters written held = record {
  list = program_instructions p;
  end = None;
  decoding = cut-back _ _ _ built wide parameters written;
  given = rows_given _ p parameters (record {
    accepts = record { address_size = built.is.address_size refl; lines = built.is.lines };
    version = known;
    built = built.is.items_built;
    addresses = held;
  });
}
