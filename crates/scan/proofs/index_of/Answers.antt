-- The place is the position of the first byte that is equal, and the length where there is none.
use Rattle.std.proofs.Common.{◌≡◌, ◌==◌, rules}
use Rattle.std.specs.List.{position}
use Rattle.std.proofs.lemmas.Iterator.{YieldsList-from_slice}
use Rattle.std.proofs.lemmas.Iterator.Search.{position_from_yields_List}
use borrow.Author.Tests.{tests}
use Rattle.scan.proofs.Searching.{position_or}
use Rattle.scan.proofs.index_of.Goals as goal

pub returns : goal.returns
returns c =
    let bytes = c.args.bytes.now in
    let found : c.position.result ≡ position (λ b. b == c.args.byte) bytes
    = position_from_yields_List (λ b. b == c.args.byte) _ _ c.position.result c.position.ensures.ran (YieldsList-from_slice bytes cc) (λ x b q k. search (rules, tests)) in
    rw (c.unwrap_or.ensures, found) (position_or c.args.byte bytes)
