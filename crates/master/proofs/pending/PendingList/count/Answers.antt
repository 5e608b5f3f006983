-- The members that pass the filter are those whose frames are pending.
use Rattle.std.proofs.Common.{◌∙◌, arith, rules}
use Rattle.std.proofs.lemmas.Iterator.{YieldsList-from_range}
use Rattle.std.proofs.lemmas.Iterator.Consumers.{YieldsList-from_filter, count_from_yields_List}
use Rattle.master.proofs.Walks.{Pends, pending_counted}
use Rattle.master.proofs.pending.PendingList.count.Goals as goal

pub returns : goal.returns
returns c =
    let a = c.args in
    count_from_yields_List c.filter.result c.count.result c.count.ensures.ran
    (YieldsList-from_filter _ (Pends a.self.t.words.now a.self.pending a.self.list) (YieldsList-from_range 0 a.end a.end c.filter.ensures.source (omega arith)) c.filter.ensures.closure (λ x b q k. search rules))
    ∙ pending_counted a.self.t.words.now a.self.pending a.self.list 0 a.end
