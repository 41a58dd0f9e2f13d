-- The code's struct of a line's text (SPECIFICATION 13.1), and room for what is put behind one.
use Rattle.std.specs.Prelude.{ℕ, ◌+◌, ◌≤◌, ◌≡◌, List, ◌++◌, length}
use Rattle.std.specs.Fmt.InlineText.{inline_text, IsIntact, IsOpen}
use Rattle.line_text.specs.declared.LineText.{LineText}

-- the bytes of the code's struct
abbrev pub shown : LineText → List ℕ
shown t = inline_text t.0

-- a text that has room for so many bytes more
pub record Room (t : LineText) (more : ℕ) : Type 0 where
  pub whole : IsIntact t.0
  pub takes : IsOpen t.0
  pub fits : length (shown t) + more ≤ 128

-- a text with this one behind it, which takes at most so many bytes
pub record Behind (before after : LineText) (text : List ℕ) (most : ℕ) : Type 0 where
  pub whole : IsIntact after.0
  pub takes : IsOpen after.0
  pub adds : shown after ≡ shown before ++ text
  pub fits : length (shown after) ≤ length (shown before) + most
