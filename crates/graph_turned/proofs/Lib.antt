mod TurnedLemmas
