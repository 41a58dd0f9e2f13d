-- What a reader of the definitions may want to be sure of: which handles do not fit, and that what was handed
-- over stands for what it was made from (SPECIFICATION 15.2). The laws of proofs/HandleLaws.antt that have
-- these types prove them.
use Rattle.std.specs.Prelude.{◌≤◌, ◌≡◌, false, length, eqb}
use Rattle.reader.specs.Outcome.{answered, ◌>>=◌}
use Rattle.reader.specs.Errors.{longest, refusal}
use Rattle.headers.specs.declared.header.NameIndexHeader.{NameIndexHeader}
use Rattle.index.specs.Layout.{fitted}
use Rattle.index.specs.Open.{index_of, opened, name_index}
use Rattle.hashes.specs.declared.hash.NameHashIter.{NameHashIter}
use Rattle.handles.specs.declared.DebugNamesIndex.{DebugNamesIndex}
use Rattle.handles.specs.Handles.{index_from, handle_of, iter_from, cursor_from}
use Rattle.reader.specs.Parts.{Section}
use Rattle.reader.specs.declared.error.Error.TheVariants.{DoesNotFit}

-- a format that is neither 4 nor 8 does not fit
abbrev pub OtherFormatsMisfit : Type 0
OtherFormatsMisfit =
    (s : Section) (h : DebugNamesIndex) → length s ≤ longest → eqb h.format 4 ≡ false → eqb h.format 8 ≡ false
    → fitted s (index_from h) ≡ refusal DoesNotFit

-- the handle that a header step gives stands for the index that the header describes
abbrev pub HandlesDescribe : Type 0
HandlesDescribe = (h : NameIndexHeader) → index_from (handle_of h) ≡ index_of h

-- so opening the handle is opening the index of the header, as `NameIndex::new` does
abbrev pub OpensTheSame : Type 0
OpensTheSame = (s : Section) (h : NameIndexHeader) → name_index s h ≡ (opened s (index_from (handle_of h)) >>= λ p. answered p.index)

-- the numbers in which a hash cursor is handed over stand for that cursor
abbrev pub CursorsComeBack : Type 0
CursorsComeBack = (c : NameHashIter) → iter_from (cursor_from c) ≡ c
