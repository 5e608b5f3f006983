-- The example of document 01, "The log program", computed by the definitions: the built-in table, three lines, and the whole report.
use Rattle.std.proofs.Common.{◌≡◌, ℕ, List, [], ◌∷◌, ◌++◌, refl}
use mathlib.Core.Bool.{xor}
use Rattle.wire.specs.Bits.{bit}
use Rattle.wire.specs.Identifier.{p0, p1, protected_byte, right_parity}
use Rattle.wire.specs.Checksum.{with_carry, sum, covered, model_of, inverted, checksum_byte}
use Rattle.cluster.specs.Lists.{first_from}
use Rattle.cluster.specs.Table as table
use Rattle.cluster.specs.Places.{any_below}
use Rattle.cluster.specs.Columns.{header_columns, frame_columns}
use Rattle.cluster.specs.Right.{header_right, frame_right, records, all_placed, front_right, back_right, words_right}
use Rattle.cluster.specs.Check.{faults, surplus, judged, RightTable, TakenTable}
use Rattle.cluster.proofs.TakenLaws.{right_taken}
use Rattle.buslog.specs.Pairs.{digit_of, is_pair, pair_byte, are_pairs, pair_bytes, line_bytes, digit_character, pair_of}
use Rattle.buslog.specs.Verdict.{frame_with, known_verdict, identifier_verdict, bytes_verdict, line_verdict}
use Rattle.buslog.specs.Row.{digits_of, decimal_of, shown_identifier, word, row_of, header}
use Rattle.buslog.specs.Lines.{whole_lines, unfinished, last_line, log_lines}
use Rattle.buslog.specs.Report.{built_in, rows_of, report_of}

-- `42 00 BD`, `42 00 BC`, `43 00 BD`, the last newline missing
abbrev pub log : List ℕ
log =
    52 ∷ 50 ∷ 32 ∷ 48 ∷ 48 ∷ 32 ∷ 66 ∷ 68 ∷ 10
    ∷ 52 ∷ 50 ∷ 32 ∷ 48 ∷ 48 ∷ 32 ∷ 66 ∷ 67 ∷ 10
    ∷ 52 ∷ 51 ∷ 32 ∷ 48 ∷ 48 ∷ 32 ∷ 66 ∷ 68 ∷ []

-- `1 02 ok`, `2 02 checksum`, `3 -- parity`
abbrev pub rows : List ℕ
rows =
    49 ∷ 32 ∷ 48 ∷ 50 ∷ 32 ∷ 111 ∷ 107 ∷ 10
    ∷ 50 ∷ 32 ∷ 48 ∷ 50 ∷ 32 ∷ 99 ∷ 104 ∷ 101 ∷ 99 ∷ 107 ∷ 115 ∷ 117 ∷ 109 ∷ 10
    ∷ 51 ∷ 32 ∷ 45 ∷ 45 ∷ 32 ∷ 112 ∷ 97 ∷ 114 ∷ 105 ∷ 116 ∷ 121 ∷ 10 ∷ []

pub example : report_of built_in log ≡ header ++ rows
unfolding built_in report_of log_lines whole_lines unfinished last_line rows_of row_of decimal_of digits_of shown_identifier word pair_of
    digit_character line_verdict bytes_verdict identifier_verdict known_verdict frame_with line_bytes pair_bytes are_pairs pair_byte is_pair
    digit_of right_parity p0 p1 xor protected_byte bit with_carry sum covered model_of inverted checksum_byte first_from table.word
    table.frame_count table.identifier table.frame_length table.flags table.classic header
example = refl

-- the built-in table is accepted
pub built_in_right : RightTable built_in
unfolding built_in judged faults surplus words_right front_right back_right all_placed records header_right header_columns frame_right frame_columns any_below table.word
    table.frame_count table.signal_count table.member_count table.entry_count table.placement_count table.placed_signals table.counted table.size table.identifier table.frame_length table.flags
built_in_right = refl

-- and taken, so no part of a log is refused under it
pub built_in_taken : TakenTable built_in
built_in_taken = right_taken built_in built_in_right
