use Rattle.gimli_build.proofs
use Rattle.std.proofs.lemmas.Bool.{not-false}
use proofs.tables.version_5.write_line_string.Goals as goal

pub returns-in-String : goal.returns-in-String
returns-in-String g c = rw (not-false _ (rw (c.ne.ensures, c.form.ensures) at c.if-ne.false), c.in-String.is)
    (rw c.as_slice.ensures.value at c.write_text.ensures)

pub returns-in-StringRef : goal.returns-in-StringRef
returns-in-StringRef g c = rw (not-false _ (rw (c.ne.ensures, c.form.ensures) at c.if-ne.false), c.in-StringRef.is)
    (rw (c.offset-offset.ensures.offset, c.strings.ensures, c.format.ensures) at c.write_section_offset.ensures)

pub returns-in-LineStringRef : goal.returns-in-LineStringRef
returns-in-LineStringRef g c =
    let put = rw (
      c.offset-offset-in-LineStringRef.ensures.offset,
      c.line_strings.ensures,
      c.format-in-LineStringRef.ensures,
    ) at c.write_section_offset-in-LineStringRef.ensures in
    rw (not-false _ (rw (c.ne.ensures, c.form.ensures) at c.if-ne.false), c.in-LineStringRef.is) put
