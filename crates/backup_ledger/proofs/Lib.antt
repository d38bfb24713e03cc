mod RightDeeds
