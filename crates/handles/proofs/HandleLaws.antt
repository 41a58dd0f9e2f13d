-- Laws of what crosses: handles and cursors come back as they were, and another format fits nowhere.
use mathlib.Core.Path.{◌≡◌, refl}
use native.Mathlib.Omega.{arith}
use lib.ListN.{length}
use borrow.Author.Tests.{le-ltb}
use Rattle.reader.specs.Errors.{longest}
use Rattle.reader.specs.declared.common.Format.{Format}
use Rattle.index.specs.Words.{word_bytes}
use Rattle.index.specs.Layout.{no_index, fitted, parts, place, places_from, sizes, hash_bytes}
use Rattle.index.specs.Open.{index_of, name_index}
use Rattle.handles.specs.Handles.{with_format, misfit, index_from, handle_of, iter_from, cursor_from}
use Rattle.handles.specs.Sanity.{OtherFormatsMisfit, HandlesDescribe, OpensTheSame, CursorsComeBack}
use Rattle.std.specs.Prelude.{Option, Some, None}
use Rattle.hashes.specs.declared.bucket.NameBucketIter.{NameBucketIter}

pub other_formats_misfit : OtherFormatsMisfit
unfolding fitted index_from misfit no_index parts place places_from sizes word_bytes hash_bytes
other_formats_misfit s h short four eight = rw (four, eight, le-ltb longest (length s) short, le-ltb (length s) 0 (omega arith)) refl

pub handles_describe : HandlesDescribe
unfolding index_from handle_of index_of with_format
handles_describe h = by_format h.format refl
  where
    by_format : (f : Format) → h.format ≡ f → index_from (handle_of h) ≡ index_of h
    by_format Format.Dwarf32 e = rw e refl
    by_format Format.Dwarf64 e = rw e refl

pub opens_the_same : OpensTheSame
unfolding name_index
opens_the_same s h = rw (handles_describe h) refl

pub cursors_come_back : CursorsComeBack
unfolding iter_from cursor_from
cursors_come_back c = by_held c.bucket_iter refl
  where
    by_held : (b : Option NameBucketIter) → c.bucket_iter ≡ b → iter_from (cursor_from c) ≡ c
    by_held None e = rw e refl
    by_held (Some b) e = rw e refl
