-- No refusal of a series, of a header step or of a table check has the number 0, which as a status would be an answer: each reading that refuses has a
-- number of its own.
use Prim.Native.Nat.{ℕ, zero, suc, ◌+◌, ◌^◌}
use mathlib.Core.Path.{◌≡◌, refl}
use mathlib.Core.Bool.{Bool, true, false, cond}
use mathlib.Core.List.{List, [], ◌∷◌}
use lib.ListN.{length}
use lib.Dec.{leb, ltb, eqb}
use Rattle.std.proofs.Math.Seq.{slice}
use Rattle.std.specs.Prelude.{Option, Some, None}
use Rattle.reader.specs.Outcome.{Outcome, answered, refused, ◌>>=◌, ◌>>◌, demand, refuse_if}
use Rattle.reader.specs.Parts.{part_end, left_at, skipped, cut}
use Rattle.reader.specs.Errors.{longest}
use Rattle.reader.specs.Steps.{keeping}
use Rattle.reader.specs.Numbers.{read_number, read_byte, initial_length}
use Rattle.reader.specs.Listing.{listing, listed}
use Rattle.reader.specs.declared.endianity.RunTimeEndian.{RunTimeEndian}
use Rattle.reader.specs.declared.reader.Read.{Read}
use Rattle.leb128.specs.Leb128.{leb128, number_of_bytes, number_bytes, complete, base128, unsigned_limit, u16_limit}
use Rattle.abbreviations.specs.declared.Head.{Head}
use Rattle.abbreviations.specs.Abbreviations.{Attribute, Declaration, pair, attributes_in, attributes, head, with_attributes, declaration, table, find}
use Rattle.forms.specs.Forms.{as_flag, as_unsigned, as_offset, form_value}
use Rattle.attributes.specs.Attributes.{values}
use Rattle.headers.specs.declared.header.NameIndexHeader.{NameIndexHeader}
use Rattle.headers.specs.declared.header.HeaderCut.{HeaderCut}
use Rattle.headers.specs.declared.headers.NameIndexHeaderIter.{NameIndexHeaderIter}
use Rattle.headers.specs.Header.{padding, augmentation, header_cut, counts, header_body, header}
use Rattle.headers.specs.Headers.{after_header, header_step}
use Rattle.index.specs.declared.layout.NameIndex.{NameIndex}
use Rattle.index.specs.declared.layout.Parts.{Parts}
use Rattle.index.specs.Layout.{parts, fitted}
use Rattle.entries.specs.Entries.{or_refuse, entry}
use Rattle.entries.specs.Series.{series_entry}
use Rattle.hashes.specs.Table.{stored_start}
use Rattle.tables.specs.Check.{any_above, table_check}

-- an outcome that is answered, or refused with a number other than 0
abbrev pub Numbered : {A : Type 0} → Outcome A → Type 0
Numbered (answered a) = Unit {0}
Numbered (refused n v) = eqb n 0 ≡ false

-- what such outcomes make
bind_numbered : {A B : Type 0} (m : Outcome A) (f : A → Outcome B) → Numbered m → ((a : A) → Numbered (f a)) → Numbered (m >>= f)
bind_numbered (answered a) f here more = more a
bind_numbered (refused n v) f here more = here

then_numbered : {A B : Type 0} (m : Outcome A) (k : Outcome B) → Numbered m → Numbered k → Numbered (m >> k)
then_numbered (answered a) k here more = more
then_numbered (refused n v) k here more = here

cond_numbered : {A : Type 0} (t : Bool) (x y : Outcome A) → Numbered x → Numbered y → Numbered (cond t x y)
cond_numbered true x y one other = one
cond_numbered false x y one other = other

refuse_numbered : (t : Bool) (n v : ℕ) → eqb n 0 ≡ false → Numbered (refuse_if t n v)
refuse_numbered true n v e = e
refuse_numbered false n v e = tt

demand_numbered : (t : Bool) (n v : ℕ) → eqb n 0 ≡ false → Numbered (demand t n v)
demand_numbered true n v e = tt
demand_numbered false n v e = e

-- the readings
skip_numbered : (n : ℕ) (s : List ℕ) (at end : ℕ) → Numbered (skipped n s at end)
unfolding skipped
skip_numbered n s at end = cond_numbered (leb (at + n) (part_end s end)) (answered (at + n)) (refused 1 at) tt refl

read_numbered : (n : ℕ) (order : RunTimeEndian) (s : List ℕ) (at end : ℕ) → Numbered (read_number n order s at end)
unfolding read_number
read_numbered n order s at end = bind_numbered (skipped n s at end) _ (skip_numbered n s at end) (λ next. tt)

byte_numbered : (s : List ℕ) (at end : ℕ) → Numbered (read_byte s at end)
unfolding read_byte
byte_numbered s at end = read_numbered 1 RunTimeEndian.Little s at end

bytes_numbered : (bits : ℕ) (bs : List ℕ) (at : ℕ) → Numbered (number_of_bytes bits bs at)
unfolding number_of_bytes
bytes_numbered bits bs at = by_tests (leb (2 ^ bits) (base128 bs)) (complete bs) (at + length bs) (record { value = base128 bs; next = at + length bs })
  where
    by_tests : (t u : Bool) (place : ℕ) (r : Read ℕ)
        → Numbered (do
          refuse_if t 7 0
          demand u 1 place
          answered r)
    by_tests true u place r = refl
    by_tests false true place r = tt
    by_tests false false place r = refl

leb128_numbered : (bits : ℕ) (s : List ℕ) (at end : ℕ) → Numbered (leb128 bits s at end)
unfolding leb128
leb128_numbered bits s at end = bytes_numbered bits (number_bytes (slice at end s)) at

pair_numbered : (s : List ℕ) (at end : ℕ) → Numbered (pair s at end)
unfolding pair
pair_numbered s at end =
    bind_numbered (leb128 u16_limit s at end) _ (leb128_numbered u16_limit s at end) λ name.
    bind_numbered (leb128 u16_limit s name.next end) _ (leb128_numbered u16_limit s name.next end) λ form.
    then_numbered (cond (eqb name.value 0) (demand (eqb form.value 0) 5 0) (refuse_if (eqb form.value 0) 6 0)) _
    (cond_numbered (eqb name.value 0) (demand (eqb form.value 0) 5 0) (refuse_if (eqb form.value 0) 6 0) (demand_numbered (eqb form.value 0) 5 0 refl) (refuse_numbered (eqb form.value 0) 6 0 refl))
    tt

pairs_numbered : (turns : ℕ) (s : List ℕ) (at end : ℕ) → Numbered (attributes_in s turns at end)
unfolding attributes_in
pairs_numbered zero s at end = refl
pairs_numbered (suc turns) s at end =
    bind_numbered (pair s at end) _ (pair_numbered s at end) λ p.
    cond_numbered (eqb p.name 0) _ _ tt (bind_numbered (attributes_in s turns p.next end) _ (pairs_numbered turns s p.next end) (λ rest. tt))

head_numbered : (s : List ℕ) (at end : ℕ) → Numbered (head s at end)
unfolding head
head_numbered s at end =
    cond_numbered (eqb (left_at s at end) 0) _ _ tt
    (bind_numbered (leb128 unsigned_limit s at end) _ (leb128_numbered unsigned_limit s at end) λ code.
    cond_numbered (eqb code.value 0) _ _ tt
    (bind_numbered (leb128 u16_limit s code.next end) _ (leb128_numbered u16_limit s code.next end) λ tag.
    then_numbered (refuse_if (eqb tag.value 0) 4 0) _ (refuse_numbered (eqb tag.value 0) 4 0 refl) tt))

with_numbered : (s : List ℕ) (end : ℕ) (h : Option Head) → Numbered (with_attributes s end h)
unfolding with_attributes attributes
with_numbered s end None = tt
with_numbered s end (Some h) =
    bind_numbered (attributes_in s (left_at s h.next end) h.next end) _ (pairs_numbered (left_at s h.next end) s h.next end) (λ a. tt)

declaration_numbered : (s : List ℕ) (at end : ℕ) → Numbered (declaration s at end)
unfolding declaration
declaration_numbered s at end = bind_numbered (head s at end) _ (head_numbered s at end) (λ h. with_numbered s end h)

-- the search in a table
find_numbered : (code : ℕ) (s : List ℕ) (end turns at : ℕ) → Numbered (find code (listing (λ place. declaration s place end) (λ d. d.next) turns at))
unfolding find listing
find_numbered code s end zero at = tt
find_numbered code s end (suc turns) at = by_declaration (declaration s at end) (declaration_numbered s at end) (λ d. find_numbered code s end turns d.next)
  where
    by_declaration : (o : Outcome (Option Declaration)) → Numbered o
        → ((d : Declaration) → Numbered (find code (listing (λ place. declaration s place end) (λ d. d.next) turns d.next)))
        → Numbered (find code (listed o λ d. listing (λ place. declaration s place end) (λ d. d.next) turns d.next))
    by_declaration (answered None) here more = tt
    by_declaration (answered (Some d)) here more = cond_numbered (eqb d.code code) (answered (Some d)) _ tt (more d)
    by_declaration (refused n v) here more = here

table_numbered : (code : ℕ) (s : List ℕ) (at end : ℕ) → Numbered (find code (table s at end))
unfolding table
table_numbered code s at end = find_numbered code s end _ at

-- the values
flag_numbered : (o : Outcome (Read ℕ)) → Numbered o → Numbered (as_flag o)
unfolding as_flag
flag_numbered o here = bind_numbered o _ here (λ n. tt)

unsigned_numbered : (o : Outcome (Read ℕ)) → Numbered o → Numbered (as_unsigned o)
unfolding as_unsigned
unsigned_numbered o here = bind_numbered o _ here (λ n. tt)

offset_numbered : (o : Outcome (Read ℕ)) → Numbered o → Numbered (as_offset o)
unfolding as_offset
offset_numbered o here = bind_numbered o _ here (λ n. tt)

value_numbered : (form : ℕ) (order : RunTimeEndian) (s : List ℕ) (at end : ℕ) → Numbered (form_value form order s at end)
unfolding form_value
value_numbered form order s at end =
    cond_numbered (eqb form 0x0c) _ _ (flag_numbered _ (byte_numbered s at end))
    (cond_numbered (eqb form 0x19) _ _ tt
    (cond_numbered (eqb form 0x0b) _ _ (unsigned_numbered _ (byte_numbered s at end))
    (cond_numbered (eqb form 0x05) _ _ (unsigned_numbered _ (read_numbered 2 order s at end))
    (cond_numbered (eqb form 0x06) _ _ (unsigned_numbered _ (read_numbered 4 order s at end))
    (cond_numbered (eqb form 0x07) _ _ (unsigned_numbered _ (read_numbered 8 order s at end))
    (cond_numbered (eqb form 0x0f) _ _ (unsigned_numbered _ (leb128_numbered unsigned_limit s at end))
    (cond_numbered (eqb form 0x11) _ _ (offset_numbered _ (byte_numbered s at end))
    (cond_numbered (eqb form 0x12) _ _ (offset_numbered _ (read_numbered 2 order s at end))
    (cond_numbered (eqb form 0x13) _ _ (offset_numbered _ (read_numbered 4 order s at end))
    (cond_numbered (eqb form 0x14) _ _ (offset_numbered _ (read_numbered 8 order s at end))
    (cond_numbered (eqb form 0x15) _ _ (offset_numbered _ (leb128_numbered unsigned_limit s at end)) refl)))))))))))

values_numbered : (order : RunTimeEndian) (s : List ℕ) (wanted : List Attribute) (at end : ℕ) → Numbered (values order s wanted at end)
unfolding values
values_numbered order s [] at end = tt
values_numbered order s (a ∷ more) at end =
    bind_numbered (form_value a.form order s at end) _ (value_numbered a.form order s at end) λ v.
    bind_numbered (values order s more v.next end) _ (values_numbered order s more v.next end) (λ rest. tt)

-- the entries of a series
declared_numbered : {A : Type 0} (o : Option A) (v : ℕ) → Numbered (or_refuse o 8 v)
declared_numbered (Some a) v = tt
declared_numbered None v = refl

entry_numbered : (order : RunTimeEndian) (s : List ℕ) (p : Parts) (at : ℕ) → Numbered (entry order s p at)
unfolding entry
entry_numbered order s p at =
    bind_numbered (leb128 unsigned_limit s at p.end) _ (leb128_numbered unsigned_limit s at p.end) λ code.
    cond_numbered (eqb code.value 0) _ _ tt
    (bind_numbered (find code.value (table s p.abbreviation_table p.entry_pool)) _ (table_numbered code.value s p.abbreviation_table p.entry_pool) λ declared.
    bind_numbered (or_refuse declared 8 code.value) _ (declared_numbered declared code.value) λ d.
    bind_numbered (values order s d.attributes code.next p.end) _ (values_numbered order s d.attributes code.next p.end) (λ v. tt))

pub series_numbered : (order : RunTimeEndian) (s : List ℕ) (p : Parts) (at : ℕ) → Numbered (series_entry order s p at)
unfolding series_entry
series_numbered order s p at = cond_numbered (eqb (left_at s at p.end) 0) _ _ tt (entry_numbered order s p at)

-- the headers
length_numbered : (order : RunTimeEndian) (s : List ℕ) (at end : ℕ) → Numbered (initial_length order s at end)
unfolding initial_length
length_numbered order s at end =
    bind_numbered (read_number 4 order s at end) _ (read_numbered 4 order s at end) λ first.
    cond_numbered (ltb first.value 0xfffffff0) _ _ tt
    (cond_numbered (eqb first.value 0xffffffff) _ _ (bind_numbered (read_number 8 order s first.next end) _ (read_numbered 8 order s first.next end) (λ wide. tt)) refl)

cut_numbered : (n : ℕ) (s : List ℕ) (at end : ℕ) → Numbered (cut n s at end)
unfolding cut
cut_numbered n s at end = bind_numbered (skipped n s at end) _ (skip_numbered n s at end) (λ next. tt)

part_numbered : (order : RunTimeEndian) (s : List ℕ) (at : ℕ) → Numbered (header_cut order s at)
unfolding header_cut
part_numbered order s at =
    bind_numbered (initial_length order s at (length s)) _ (length_numbered order s at (length s)) λ l.
    bind_numbered (cut l.length s l.next (length s)) _ (cut_numbered l.length s l.next (length s)) (λ part. tt)

counts_numbered : (order : RunTimeEndian) (s : List ℕ) (at end : ℕ) → Numbered (counts order s at end)
unfolding counts
counts_numbered order s at end =
    bind_numbered (read_number 4 order s at end) _ (read_numbered 4 order s at end) λ c.
    bind_numbered (read_number 4 order s c.next end) _ (read_numbered 4 order s c.next end) λ l.
    bind_numbered (read_number 4 order s l.next end) _ (read_numbered 4 order s l.next end) λ f.
    bind_numbered (read_number 4 order s f.next end) _ (read_numbered 4 order s f.next end) λ b.
    bind_numbered (read_number 4 order s b.next end) _ (read_numbered 4 order s b.next end) λ n.
    bind_numbered (read_number 4 order s n.next end) _ (read_numbered 4 order s n.next end) λ a.
    bind_numbered (read_number 4 order s a.next end) _ (read_numbered 4 order s a.next end) (λ z. tt)

augmentation_numbered : (size : ℕ) (s : List ℕ) (at end : ℕ) → Numbered (augmentation size s at end)
unfolding augmentation
augmentation_numbered size s at end =
    cond_numbered (eqb size 0) _ _ tt
    (bind_numbered (cut size s at end) _ (cut_numbered size s at end) λ string.
    bind_numbered (skipped (padding size) s string.end end) _ (skip_numbered (padding size) s string.end end) (λ next. tt))

body_numbered : (order : RunTimeEndian) (s : List ℕ) (c : HeaderCut) → Numbered (header_body order s c)
unfolding header_body
body_numbered order s c =
    bind_numbered (read_number 2 order s c.body.at c.body.end) _ (read_numbered 2 order s c.body.at c.body.end) λ version.
    then_numbered (demand (eqb version.value 5) 3 version.value) _ (demand_numbered (eqb version.value 5) 3 version.value refl)
    (bind_numbered (skipped 2 s version.next c.body.end) _ (skip_numbered 2 s version.next c.body.end) λ padded.
    bind_numbered (counts order s padded c.body.end) _ (counts_numbered order s padded c.body.end) λ n.
    bind_numbered (augmentation n.augmentation_string_size s n.next c.body.end) _ (augmentation_numbered n.augmentation_string_size s n.next c.body.end) (λ a. tt))

header_numbered : (order : RunTimeEndian) (s : List ℕ) (at : ℕ) → Numbered (header order s at)
unfolding header
header_numbered order s at = bind_numbered (header_cut order s at) _ (part_numbered order s at) (λ c. body_numbered order s c)

pub step_numbered : (order : RunTimeEndian) (s : List ℕ) (c : NameIndexHeaderIter) → Numbered (header_step order s c).answer
unfolding header_step after_header
step_numbered order s c = by_tests (ltb longest (length s)) (ltb (length s) c.at) (eqb c.at (length s)) (header order s c.at) (header_numbered order s c.at)
  where
    by_tests : (t u v : Bool) (o : Outcome NameIndexHeader) → Numbered o
        → Numbered (keeping c (do
          refuse_if t 13 0
          refuse_if u 14 0
          answered (cond v (record { answer = answered None; cursor = c }) (after_header s o)))).answer
    by_tests true u v o here = refl
    by_tests false true v o here = refl
    by_tests false false true o here = tt
    by_tests false false false (answered h) here = tt
    by_tests false false false (refused n v) here = here

-- the table check
fitted_numbered : (s : List ℕ) (i : NameIndex) → Numbered (fitted s i)
unfolding fitted
fitted_numbered s i =
    then_numbered (refuse_if (ltb longest (length s)) 13 0) _ (refuse_numbered (ltb longest (length s)) 13 0 refl)
    (then_numbered (refuse_if (ltb (length s) i.end) 14 0) _ (refuse_numbered (ltb (length s) i.end) 14 0 refl)
    (then_numbered (refuse_if (ltb i.end (parts i).entry_pool) 14 0) _ (refuse_numbered (ltb i.end (parts i).entry_pool) 14 0 refl) tt))

pub check_numbered : (order : RunTimeEndian) (s : List ℕ) (i : NameIndex) → Numbered (table_check order s i)
unfolding table_check
check_numbered order s i =
    bind_numbered (fitted s i) _ (fitted_numbered s i) λ p.
    cond_numbered (eqb i.bucket_count 0) _ _ tt
    (then_numbered (refuse_if (any_above i.name_count (stored_start order s p) i.bucket_count) 1 p.hash_table_data) _
    (refuse_numbered (any_above i.name_count (stored_start order s p) i.bucket_count) 1 p.hash_table_data refl)
    tt)
