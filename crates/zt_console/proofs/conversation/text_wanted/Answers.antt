-- What the copy tells is printed.
use Rattle.zt_console.proofs.ConversationLaws.{rows_printed, holders_printed, leaks_printed}
use Rattle.zt_console.proofs.conversation.text_wanted.Goals as goal

pub returns-in-PinnedShow-clause-answers : goal.returns-in-PinnedShow-clause-answers
returns-in-PinnedShow-clause-answers g c =
    rows_printed g.D.Responder.asks c.args.client.now c.args.line.now c.pinned_rows.result (λ t. t.items) c.printed.result c.in-PinnedShow.is c.pinned_rows.ensures c.printed.ensures

pub returns-in-PinnedHolders-clause-answers : goal.returns-in-PinnedHolders-clause-answers
returns-in-PinnedHolders-clause-answers g c =
    holders_printed g.D.Responder.asks c.args.client.now c.args.line.now _ c.pinned_holders.result (λ t. t.items) c.printed-in-PinnedHolders.result c.in-PinnedHolders.is c.pinned_holders.ensures c.printed-in-PinnedHolders.ensures

pub returns-in-PinnedLeaks-clause-answers : goal.returns-in-PinnedLeaks-clause-answers
returns-in-PinnedLeaks-clause-answers g c =
    leaks_printed g.D.Responder.asks c.args.client.now c.args.line.now c.pinned_leaks.result (λ t. t.items) c.printed-in-PinnedLeaks.result c.in-PinnedLeaks.is c.pinned_leaks.ensures c.printed-in-PinnedLeaks.ensures
