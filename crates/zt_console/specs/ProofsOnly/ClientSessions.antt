-- The places at which the clients of a shared book are served. This project's own. Used by proofs only.
use Rattle.std.specs.Prelude.{◌≡◌, ℕ, ◌≤◌, List, [], length, All, Option, Some}
use Rattle.zt_shared.specs.Sharing.{PassView}
use Rattle.zt_console.specs.declared.run_loop.End.TheVariants.{Finished}
use Rattle.zt_console.specs.declared.client_sessions.ClientSession.{ClientSession}
use Rattle.zt_console.specs.declared.client_sessions.Served.{Served}
use Rattle.zt_console.specs.declared.client_threads.ClientThread.{ClientThread}
use Rattle.zt_console.specs.declared.client_threads.ClientThread.TheVariants.{Running, Unserved}
use Rattle.zt_console.specs.Sessions.{Caller, IsCountable, IsServed}

module _ {I O A B C D : Type 0} where
  -- the place of a client that was not served yet
  abbrev pub place_of : Caller I O → ClientSession I O A B C D
  place_of caller = record { reader = caller.0; writer = caller.1; pass = Some caller.2; end = Finished }

  -- what a place has of a client that is to be served
  pub record IsToBeServed (place : ClientSession I O A B C D) : Type 0 where
    pub pass : PassView
    pub held : place.pass ≡ Some pass
    pub counts : IsCountable (place.reader, place.writer, pass)

  -- clients that are to be served, and empty lists with room for their threads and for what these give back
  pub record CanBeServed (waiting : List (ClientSession I O A B C D)) (threads : List (ClientThread I O A B C D)) (most_threads : ℕ)
      (places : List (ClientSession I O A B C D)) (most_places : ℕ) : Type 0 where
    pub to_serve : All IsToBeServed waiting
    pub no_thread : threads ≡ []
    pub no_place : places ≡ []
    pub threads_fit : length waiting ≤ most_threads
    pub places_fit : length waiting ≤ most_places

  -- a client was served at its place
  pub record HasServed (remaining : I → Option (List ℕ)) (contents : O → Option (List ℕ)) (old new : ClientSession I O A B C D) : Type 0 where
    pub before : PassView
    pub after : PassView
    pub held : old.pass ≡ Some before
    pub holds : new.pass ≡ Some after
    pub who : after.client ≡ before.client
    pub base : after.base ≡ before.base
    pub served : IsServed remaining contents (old.reader, old.writer, before) after new.reader new.writer new.end

  -- what is left of a client beside its pass
  abbrev pub served_at : ClientSession I O A B C D → Served I O
  served_at place = record { reader = place.reader; writer = place.writer; end = place.end }

  -- its pass, if there is one
  abbrev pub pass_at : ClientSession I O A B C D → Option PassView
  pass_at place = place.pass

  -- what is given back of the place of a client that was to be served
  abbrev pub IsGivenBack : (I → Option (List ℕ)) → (O → Option (List ℕ)) → ClientSession I O A B C D → ClientSession I O A B C D → Type 0
  IsGivenBack remaining contents old new = IsToBeServed old → HasServed remaining contents old new

  -- a thread that was started with this place, or what is given back where none could be
  abbrev pub IsStartedFor : (I → Option (List ℕ)) → (O → Option (List ℕ)) → ClientSession I O A B C D → ClientThread I O A B C D → Type 0
  IsStartedFor remaining contents old (Running thread) = thread.promise.place.value ≡ old
  IsStartedFor remaining contents old (Unserved place) = IsGivenBack remaining contents old place

  -- what a thread gave back
  abbrev pub IsJoinedTo : (I → Option (List ℕ)) → (O → Option (List ℕ)) → ClientThread I O A B C D → ClientSession I O A B C D → Type 0
  IsJoinedTo remaining contents (Running thread) new = IsGivenBack remaining contents thread.promise.place.value new
  IsJoinedTo remaining contents (Unserved place) new = new ≡ place
