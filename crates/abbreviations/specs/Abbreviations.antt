-- The abbreviation table (SPECIFICATION 8; DWARF 5, 6.1.1.4.7). `s` is the section, and the table is its part
-- from `at` up to `end`: declarations one after another, each a code (64 bits), a tag (16 bits) and pairs of
-- name and form (16 bits each), all LEB128 numbers, up to a pair of two zeros. Where nothing is left, or at
-- code 0, the table ends. Refused are a number with 1 or 7, tag 0 with 4, name 0 with another form with 5,
-- and another name with form 0 with 6; both numbers of a pair are read before either is judged. Tags, names
-- and forms that nobody knows are taken.
-- A search by code reads declarations from the first on, each to its end before its code is compared. The
-- first with the code is answered: code, tag, the place of its pairs and the place past it; none where the
-- table ends first. A declaration that is refused first, the wanted one included, gives its refusal.
-- DWARF 5 ends a table with code 0, and has each code once. Here, as in gimli, the closing 0 may be missing,
-- the first declaration of a code counts, and a number behind the form implicit_const is read as part of the
-- next pair. gimli keeps the declarations; here they are read again at each search.
use Rattle.std.specs.Prelude.{ℕ, zero, suc, ◌-◌, cond, List, [], ◌∷◌, eqb, Option, Some, None, option_map}
use Rattle.reader.specs.Outcome.{Outcome, answered, refused, ◌>>=◌, ◌>>◌}
use Rattle.reader.specs.Parts.{Section, part_end, left_at}
use Rattle.leb128.specs.Leb128.{leb128, unsigned_limit, u16_limit}
use Rattle.reader.specs.Listing.{Listing, ended, broken, item, listing}
use Rattle.abbreviations.specs.declared.NameAbbreviation.{NameAbbreviation}
use Rattle.abbreviations.specs.declared.ReadAttribute.{ReadAttribute}
use Rattle.abbreviations.specs.declared.Head.{Head}
use Rattle.reader.specs.Errors.{fail_if, refusal, require}
use Rattle.reader.specs.declared.error.Error.TheVariants.{AbbreviationTagZero, AttributeFormZero, AttributeNameZero, UnexpectedEof}

-- an attribute that a declaration names
pub record Attribute : Type 0 where
  pub name : ℕ
  pub form : ℕ

-- the attributes of a declaration, and the place past the (0, 0) that ends them
pub record Attributes : Type 0 where
  pub list : List Attribute
  pub next : ℕ

-- an attribute before others
abbrev pub attribute_then : ReadAttribute → Attributes → Attributes
attribute_then p rest = record { list = record { name = p.name; form = p.form } ∷ rest.list; next = rest.next }

-- a declaration: its code, its tag and its attributes, with the place of their pairs and the place past it
pub record Declaration : Type 0 where
  pub code : ℕ
  pub tag : ℕ
  pub place : ℕ
  pub attributes : List Attribute
  pub next : ℕ

-- a declaration as a call answers it: the place of its pairs stands for them
abbrev pub abbreviation_of : Declaration → NameAbbreviation
abbreviation_of d = record { code = d.code; tag = d.tag; attributes = d.place; next = d.next }

-- the first declaration with a code; a refusal that comes before it is the answer
unfoldable pub find : ℕ → Listing Declaration → Outcome (Option Declaration)
find code ended = answered None
find code (broken n v) = refused n v
find code (item d rest) = cond (eqb d.code code) (answered (Some d)) (find code rest)

-- a whole table read: the refusal that broke it off, if one did
unfoldable pub ending : Listing Declaration → Outcome (Unit {0})
ending ended = answered tt
ending (broken n v) = refused n v
ending (item d rest) = ending rest

-- a section
module _ (s : Section) where
  -- name and form, 16 bits each; with name 0 the form is 0 too, else 5; with any other name it is not, else 6
  unfoldable pub pair : ℕ → ℕ → Outcome ReadAttribute
  pair at end = do
    name ← leb128 u16_limit s at end
    form ← leb128 u16_limit s name.next end
    cond (eqb name.value 0) (require (eqb form.value 0) AttributeNameZero) (fail_if (eqb form.value 0) AttributeFormZero)
    answered (record { name = name.value; form = form.value; next = form.next })

  -- the pairs from `at` on, up to (0, 0). Given as many turns as bytes are left, it has turns enough
  -- (`attributes_step`); where no byte is left, the next pair is missing.
  unfoldable pub attributes_in : ℕ → ℕ → ℕ → Outcome Attributes
  attributes_in zero at end = refusal (UnexpectedEof at)
  attributes_in (suc turns) at end = do
    p ← pair at end
    let more : Outcome Attributes = attributes_in turns p.next end
    cond (eqb p.name 0) (answered (record { list = []; next = p.next })) (do
      rest ← more
      answered (attribute_then p rest))

  unfoldable pub attributes : ℕ → ℕ → Outcome Attributes
  attributes at end = attributes_in (left_at s at end) at end

  -- the code and the tag of a declaration: code, 64 bits, and tag, 16 bits; none at the part's end and at
  -- code 0; a tag of 0 is 4
  unfoldable pub head : ℕ → ℕ → Outcome (Option Head)
  head at end = cond (eqb (left_at s at end) 0) (answered None) (do
    code ← leb128 unsigned_limit s at end
    cond (eqb code.value 0) (answered None) (do
      tag ← leb128 u16_limit s code.next end
      fail_if (eqb tag.value 0) AbbreviationTagZero
      answered (Some (record { code = code.value; tag = tag.value; next = tag.next }))))

  unfoldable pub with_attributes : ℕ → Option Head → Outcome (Option Declaration)
  with_attributes end None = answered None
  with_attributes end (Some h) = do
    a ← attributes h.next end
    answered (Some (record { code = h.code; tag = h.tag; place = h.next; attributes = a.list; next = a.next }))

  -- the declaration at `at`, or none where the table ends
  unfoldable pub declaration : ℕ → ℕ → Outcome (Option Declaration)
  declaration at end = do
    h ← head at end
    with_attributes end h

  -- the table: its declarations in order, up to its end or the first refusal
  unfoldable pub table : ℕ → ℕ → Listing Declaration
  table at end = listing (λ place. declaration place end) (λ d. d.next) (part_end s end - at) at

  -- the whole of it read
  unfoldable pub parsed : ℕ → ℕ → Outcome (Unit {0})
  parsed at end = ending (table at end)

  -- what a search by code answers
  unfoldable pub found : ℕ → ℕ → ℕ → Outcome (Option NameAbbreviation)
  found at end code = do
    d ← find code (table at end)
    answered (option_map abbreviation_of d)
