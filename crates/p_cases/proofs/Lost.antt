-- What the table check names in case A with another second start, and in two tables of their own: the definitions by computation, the rest by the
-- theorems.
use mathlib.Core.Path.{refl}
use native.Mathlib.Omega.{arith}
use Rattle.reader.specs.Errors.{longest}
use Rattle.reader.specs.Numbers.{digits, spelled, number_at}
use Rattle.reader.specs.Lists.{numbers_from, filterb, take_while, memberb}
use Rattle.reader.specs.declared.endianity.RunTimeEndian.{RunTimeEndian}
use Rattle.index.specs.Layout.{hash_bytes, sizes, places_from, place, parts, fitted}
use Rattle.hashes.specs.Table.{nth_of, stored_start, stored_hash, bucket_of, names_from, run_from, from_start, run, storing, names_of_hash, all_storing}
use Rattle.tables.specs.Check.{start_above, any_above, is_missed, missed_names, verdict, table_check}
use Rattle.tables.proofs.LostLaws.{lost_least, lost_not_listed}
use Rattle.p_cases.specs.CaseA.{case_a, index_a, second_start}
use Rattle.p_cases.specs.Lost.{lost_two, LostSupposes, LostInA, LostComputed, words, table_of, table_index, LostByNumber, LostBesideFound}
use Rattle.index.specs.Words.{word_bytes}

pub lost_supposes : LostSupposes
unfolding case_a index_a second_start nth_of stored_start stored_hash bucket_of names_from run_from from_start run numbers_from filterb take_while memberb number_at spelled digits fitted parts place places_from sizes word_bytes hash_bytes longest start_above any_above is_missed missed_names verdict table_check
lost_supposes = (refl, refl, omega arith, refl)

pub lost_in_a : LostInA
lost_in_a =
    let (number, among, least, stored) = lost_least RunTimeEndian.Little (second_start 4) index_a lost_two lost_supposes.1 in
    (least, (lost_not_listed RunTimeEndian.Little (second_start 4) index_a lost_two lost_supposes.1).1)

pub lost_computed : LostComputed
unfolding case_a index_a second_start nth_of stored_start stored_hash bucket_of names_from run_from from_start run storing names_of_hash all_storing numbers_from filterb take_while memberb number_at spelled digits parts place places_from sizes word_bytes hash_bytes is_missed missed_names
lost_computed = (refl, refl, refl, refl)

pub lost_by_number : LostByNumber
unfolding words table_of table_index nth_of stored_start stored_hash bucket_of names_from run_from from_start run numbers_from filterb take_while memberb number_at spelled digits fitted parts place places_from sizes word_bytes hash_bytes longest start_above any_above is_missed missed_names verdict table_check
lost_by_number = refl

pub lost_beside_found : LostBesideFound
unfolding words table_of table_index nth_of stored_start stored_hash bucket_of names_from run_from from_start run numbers_from filterb take_while memberb number_at spelled digits fitted parts place places_from sizes word_bytes hash_bytes longest start_above any_above is_missed missed_names verdict table_check storing names_of_hash all_storing
lost_beside_found = (refl, refl, refl)
